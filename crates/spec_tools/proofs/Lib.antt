mod TraceRows
mod DiffRows
