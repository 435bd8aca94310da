-- Terms and lines as their bytes are written.
pub mod Put
