-- The laws of what comes before a call's own work. The calls cite Judging (what filling requires), Deciding (what the checks decide)
-- and Packing (the chart and the list L of the packed grammar).
pub mod Judging
pub mod Deciding
pub mod Packing
