pub mod AskedForms
