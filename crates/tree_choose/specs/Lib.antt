-- Which rule and which end are chosen, and what comes next at a place of a rule.
pub mod Chosen
pub mod Looked
