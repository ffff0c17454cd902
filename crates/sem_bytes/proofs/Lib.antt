mod Lying
mod Longest
mod SampleRuns
