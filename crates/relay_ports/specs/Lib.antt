pub mod StartFault
