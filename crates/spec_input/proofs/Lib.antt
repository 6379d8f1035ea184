mod WordsRows
mod ScriptRows
mod MadeRows
