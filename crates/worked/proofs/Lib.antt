-- Tests that all pass; that a number serves a book, and which frame sizes some table fills, decided by
-- tests that antt computes; and with them the worked figures.
mod AllPass
mod ServesDecided
mod SizesDecided
mod FiguresHold
