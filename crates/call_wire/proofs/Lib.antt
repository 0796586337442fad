pub mod Numbers
pub mod Readings
pub mod OneField
pub mod ManyFields
pub mod Bodies
pub mod CallBodies
pub mod Frames
pub mod Cuts
