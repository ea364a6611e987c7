pub mod ByteTile
