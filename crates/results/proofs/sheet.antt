-- Figures by their places, sheets that are shown, desks that are closed, words that open.
pub mod FigurePlaces
pub mod GoodSheet
pub mod Ignored
pub mod AlwaysShown
pub mod HandedBack
pub mod ClosedDesks
pub mod ShownClocks
pub mod OwnParts
pub mod YearExactly
pub mod PackedShown
pub mod GoodYear
pub mod December
pub mod SheetWords
pub mod Opening
