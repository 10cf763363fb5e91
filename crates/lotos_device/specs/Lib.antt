pub mod DeviceStates
pub mod DeviceContracts
pub mod TextInput
pub mod WrappedDevices
pub mod ByteOutput
