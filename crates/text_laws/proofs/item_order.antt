mod Effects
mod SwappedParts
mod SwappedItems
mod SwappedLines
mod Rows
