pub mod FilmText
pub mod Asks
