-- Which rows a smaller budget keeps.
pub mod Budget
