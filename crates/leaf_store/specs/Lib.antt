pub mod LeafLists
pub mod LeafStates
pub mod within
