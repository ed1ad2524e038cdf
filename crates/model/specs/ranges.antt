pub mod RangePrefix
pub mod UpperBound
