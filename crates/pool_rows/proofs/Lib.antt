pub mod Filling
pub mod KeysStay
pub mod Holders
pub mod Places
