pub mod PrivateUse
