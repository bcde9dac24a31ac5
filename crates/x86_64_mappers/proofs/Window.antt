pub mod Numbers
pub mod Windows
pub mod RootWindows
pub mod WalkedCalls
