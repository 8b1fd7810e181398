pub mod SampleAnswers
