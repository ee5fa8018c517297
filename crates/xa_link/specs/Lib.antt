pub mod Linking
pub mod placing
pub mod Reading
pub mod Resolution
