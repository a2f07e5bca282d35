pub mod ReceiverLog
