pub mod RangeSteps
