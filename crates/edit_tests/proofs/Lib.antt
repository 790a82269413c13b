-- Index: tables of a small tree hold it, and where its nodes stand in them (Small)
mod Small
