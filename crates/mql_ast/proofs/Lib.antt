pub mod BranchLemmas
mod Chains
mod EscapeLemmas
mod ListsPrinted
pub mod NumbersPrinted
mod OperationsFewest
mod OperationsPrinted
mod PatternsPrinted
mod PipeFewest
mod PipePrinted
mod PredicateFewest
mod PredicateLinkLemmas
mod PredicatePartLemmas
mod PredicatePrinted
mod QuotesPrinted
mod SumLinkLemmas
mod SumPartLemmas
mod SumPrinted
mod TokensFewest
mod TokensPrinted
