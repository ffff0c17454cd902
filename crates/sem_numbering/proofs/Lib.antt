mod Among
mod Children
