pub mod WriterSteps
