-- The laws that the functions' proofs cite: a scan down lines, row 4 (TraceScans), rows 6 and 7 (ReportScans).
pub mod Scans
pub mod TraceScans
pub mod ReportScans
