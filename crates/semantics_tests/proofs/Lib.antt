mod Answers
mod Comparisons
