pub mod DividedOnce
