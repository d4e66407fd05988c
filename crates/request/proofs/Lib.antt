pub mod Numbers
pub mod Named
pub mod ReadIsSpelt
pub mod SpeltIsRead
pub mod Exactly
