pub mod Table
pub mod Every
pub mod Tests
pub mod FirstLaws
