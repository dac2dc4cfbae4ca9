pub mod Counting
pub mod Painting
pub mod Rising
pub mod Turning
