-- What is proved of rows and marks.
-- What is proved of the search.
-- What is proved of orders.
-- What is proved of targets.
-- What is proved of groups.
pub mod AddedEdges
pub mod CallSteps
pub mod ClassSteps
pub mod ClosedMarks
pub mod Closing
pub mod CountSteps
pub mod Counting
pub mod CountingDown
pub mod Cuts
pub mod GraphMade
pub mod HeadSteps
pub mod HeadsMade
pub mod InsertedEntries
pub mod KeysTold
pub mod Lasts
pub mod LinkSteps
pub mod MadeGroups
pub mod MarkSteps
pub mod MemberSteps
pub mod NameNumbers
pub mod Places
pub mod Placing
pub mod Ready
pub mod RowEdges
pub mod RowLists
pub mod RowPlaces
pub mod SearchAdvances
pub mod SearchCloses
pub mod SearchEnds
pub mod SearchMeasure
pub mod SearchSteps
pub mod Searching
pub mod Sharing
pub mod TakenAgree
pub mod TargetFacts
pub mod Turned
