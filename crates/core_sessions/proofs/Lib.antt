mod AtPlace
mod InOrder
