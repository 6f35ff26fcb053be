-- In reading order. Faults: what each fault reports. Charges: calls carried out one after the other. Prepared: what
-- two sheets mean together, and what preparing a planner answers.
pub mod Faults
pub mod Charges
pub mod Prepared
