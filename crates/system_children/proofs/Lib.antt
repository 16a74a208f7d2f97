-- The lemmas.
mod PrintedLemmas
mod TicketLemmas
