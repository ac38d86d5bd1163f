pub mod LineLists
pub mod OrderWriting
pub mod VerdictTexts
