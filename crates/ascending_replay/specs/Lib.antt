-- An exported call that runs a list of calls under the ascending profile: what it promises, and that what it tells meets that.
pub mod Exported
pub mod Telling
