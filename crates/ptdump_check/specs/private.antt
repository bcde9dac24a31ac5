pub mod AliasingLaws
pub mod Reaching
