-- What the functions of the scanner find, as their contracts say it.
pub mod Ends
pub mod Buckets
pub mod LexicalElements
pub mod Reading
pub mod Scanning
