pub mod DeviceParts
