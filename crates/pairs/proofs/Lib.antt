pub mod Composing
pub mod Padding
pub mod Results
pub mod States
pub mod Rules
