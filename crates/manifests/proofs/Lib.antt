pub mod Lists
pub mod Manifests
pub mod Printed
