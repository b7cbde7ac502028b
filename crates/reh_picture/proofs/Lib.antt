pub mod Sound
pub mod Lists
pub mod Walks
pub mod BookiesLemmas
pub mod ContentsLemmas
pub mod Greatest
pub mod Rows
pub mod PicturesLemmas
mod Examples
pub mod CountsLemmas
pub mod MarksLemmas
