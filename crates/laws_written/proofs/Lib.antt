pub mod OrderFields
pub mod Orders
pub mod OrderShown
pub mod Braces
pub mod Closing
pub mod Counts
pub mod Names
pub mod NodesParts
pub mod Plans
pub mod NodesStaying
pub mod Together
pub mod NodesTrees
pub mod NodesWhole
pub mod FieldsDocuments
pub mod Inside
pub mod FieldsItems
pub mod Naming
pub mod FieldsShown
pub mod FieldsStaying
pub mod FieldsTrees
pub mod Links
pub mod Silent
pub mod Named
pub mod RoutesWhole
pub mod RoutesRows
pub mod RoutesDistinct
pub mod Resolving
pub mod LimitsShown
pub mod LimitsScenes
pub mod DistinctDocuments
pub mod DistinctRows
pub mod DistinctScenes
pub mod Chains
mod Defaulted
pub mod Defaults
pub mod Documents
mod TextFields
mod Headers
mod Labels
pub mod Lists
mod TextNames
mod TextNodes
mod Numbered
mod Numbers
mod Opened
mod TextRoutes
pub mod Scenes
mod Sound
mod Steps
mod Tests
mod Values
mod Written
pub mod NumbersInOrder
pub mod TextAgain
pub mod Inner
pub mod NumberedLists
pub mod Lower
pub mod NumberedScenes
pub mod Visits
pub mod Beginning
pub mod Given
pub mod Holding
pub mod InPlace
pub mod AgainLabels
pub mod Made
pub mod Next
pub mod AgainNumbered
pub mod Opening
pub mod Parts
pub mod Places
pub mod Present
pub mod Reading
pub mod Room
pub mod Switches
pub mod Whole
pub mod AgainLimits
pub mod AgainNodes
pub mod Okay
pub mod ExistOpening
pub mod ExistPresent
pub mod ExistReading
pub mod Standing
pub mod ExistWhole
pub mod Keepable
pub mod Spelled
pub mod TypedFitting
pub mod Held
pub mod Lines
pub mod Rewritten
pub mod StayFitting
pub mod Kept
pub mod Ranged
pub mod WorldsWhole
pub mod SameSteps
pub mod SameFields
pub mod SameLists
pub mod SameTrees
