pub mod Emitting
pub mod Fits
pub mod FitsImage
pub mod Fitting
pub mod Following
pub mod Standing
pub mod Units
