mod Answered
mod Causes
mod Checkable
mod Ended
pub mod FeedCauses
pub mod FeedFound
pub mod FeedParts
pub mod FeedRows
pub mod FeedSteps
pub mod FeedWrote
pub mod FileRecords
mod Found
mod Growing
mod NewEntries
mod NoOwn
pub mod Offered
mod FollowTables
mod FollowWrote
pub mod OtherLines
mod Placed
pub mod PourWrote
mod Printed
mod RecoveryWrote
mod RetireWrote
mod Results
mod Sources
pub mod StandingWrote
mod SwitchWrote
mod TrimWrote
mod Typed
mod Wrote
