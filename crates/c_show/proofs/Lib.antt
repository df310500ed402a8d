mod ShownExprs
mod ShownStmts
mod ShownCalls
mod Shown
