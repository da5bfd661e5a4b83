mod CsvLineLemmas
mod JoinKeyLemmas
mod JoinLemmas
mod JoinRoomLemmas
mod NamedPlaceLemmas
mod PlaceLemmas
mod ReferenceLemmas
mod RightSideLemmas
