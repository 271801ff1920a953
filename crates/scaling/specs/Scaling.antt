-- No meaning of its own: what a scale is stands in crates/scaled, the room of the sides in crates/rooms. The laws of the
-- code stand below.
-- Assumes nothing.
pub mod Laws
