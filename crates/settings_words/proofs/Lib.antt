pub mod Flat
pub mod ReadBack
pub mod PictureLaws
