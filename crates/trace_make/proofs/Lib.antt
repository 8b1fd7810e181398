pub mod MadeLines
