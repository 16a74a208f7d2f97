-- The lemmas.
mod Numbers
mod Said
