-- Text: what each line reads. Puts: what writing a text and measuring it leave. Printed: what printing answers and leaves in
-- the buffer.
pub mod Text
pub mod Puts
pub mod Printed
