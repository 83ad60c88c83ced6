pub mod CallLists
pub mod Orders
pub mod Searches
pub mod Opens
pub mod Laws
