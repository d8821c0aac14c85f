-- The paper's cases.
mod Examples
