pub mod OverLaws
pub mod LineLaws
pub mod RowLaws
pub mod RowTexts
pub mod PageLaws
pub mod BoundLaws
mod CalledLaws
pub mod StandsLaws
pub mod SheetLaws
pub mod Titles
pub mod Spacing
pub mod OneLayout
pub mod LineShown
pub mod NumberShown
pub mod LineFacts
pub mod Once
pub mod Theorems
